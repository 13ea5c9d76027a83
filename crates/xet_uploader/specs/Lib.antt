pub mod Uploads
pub mod StoresAfter
pub mod XorbRecords
pub mod steps
