pub mod Classes
pub mod Signature
pub mod Status
pub mod View
pub mod Results
pub mod Started
