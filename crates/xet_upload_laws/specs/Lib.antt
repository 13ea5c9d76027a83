pub mod AllStand
pub mod Clashes
pub mod Downloads
pub mod Laws
pub mod RecordsStand
pub mod Sending
pub mod StoreAfter
