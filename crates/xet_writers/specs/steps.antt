pub mod SequentialSteps
