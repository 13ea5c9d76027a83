pub mod Mirror
pub mod MirrorInput
pub mod steps
