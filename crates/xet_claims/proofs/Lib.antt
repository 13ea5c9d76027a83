mod Gathered
mod PoolSteps
