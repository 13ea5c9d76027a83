pub mod Uploads
pub mod UploadTelling
pub mod steps
