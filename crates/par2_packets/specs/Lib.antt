pub mod PacketViews
pub mod Recoveries
