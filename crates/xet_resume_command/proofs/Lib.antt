mod Filled
mod HonestParts
mod Printed
mod WordPairs
