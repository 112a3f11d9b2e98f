pub mod HalvingSearch
pub mod Lookups
pub mod Plain
pub mod Given
