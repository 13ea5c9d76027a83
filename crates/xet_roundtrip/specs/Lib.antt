pub mod ComeBack
pub mod Roundtrip
pub mod steps
