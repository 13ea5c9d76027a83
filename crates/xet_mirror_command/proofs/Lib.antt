mod Copies
mod Documents
mod Items
mod Printed
