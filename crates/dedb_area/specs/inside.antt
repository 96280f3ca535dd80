pub mod Anchors
pub mod Applying
pub mod Committing
pub mod Keeping
pub mod Purging
pub mod Staging
