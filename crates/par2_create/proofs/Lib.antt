mod Common
mod VolumeLaws
mod Names
