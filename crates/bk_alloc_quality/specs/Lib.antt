pub mod Flows
pub mod Pressure
