mod Admitting
mod AdmitTies
mod Answering
mod AskCauses
mod AskTies
pub mod CallerLemmas
mod Dues
mod OfferTies
mod Recording
mod RefreshCauses
mod RefreshTies
mod Running
mod StopTies
