mod Common
mod Drafts
mod RepairParts
mod Restoring
mod Steps
mod Names
