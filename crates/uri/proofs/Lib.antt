pub mod Cuts
pub mod Hosts
pub mod Laws
pub mod Parts
pub mod Places
pub mod Ports
