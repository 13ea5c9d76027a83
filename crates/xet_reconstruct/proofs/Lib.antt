mod Complete
mod Halts
mod HonestAnswers
mod HonestPlans
mod Limits
mod Mapping
mod Placings
mod ToFiles
