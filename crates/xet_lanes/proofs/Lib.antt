mod Apart
mod BothHalves
mod Draws
mod NewJobs
mod RoundEnds
