mod Clients
mod Parts
mod Printed
mod Sessions
