pub mod LogImages
pub mod FrontsKept
pub mod Shutting
pub mod Fronts
pub mod BodyReads
pub mod BufferParts
pub mod Sealing
pub mod Errs
