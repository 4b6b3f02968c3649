pub mod Elements
pub mod Magnitudes
pub mod Places
pub mod MxScales
pub mod MxBlocks
pub mod Nvfp4
pub mod Laws
pub mod Again
