pub mod Systems
pub mod Echelon
pub mod LostSlices
