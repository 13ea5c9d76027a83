mod EndCalls
mod UploadAlone
mod UploadCalls
mod UploadLists
mod Uploading
