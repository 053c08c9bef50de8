mod Common
mod WordLaws
