mod Ends
mod GetOutcomes
mod OptionWords
mod PrintedDigits
mod TapCalls
mod TapLanes
mod TapMoves
mod TapRuns
