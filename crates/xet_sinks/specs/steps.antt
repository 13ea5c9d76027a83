-- Working words of private functions.
pub mod Held
pub mod HexPieces
pub mod Pushed
pub mod Settled
