mod Common
mod Openings
mod Runs
mod Names
