mod ComeBack
mod Fetches
mod HashTexts
mod Patterns
mod Trips
