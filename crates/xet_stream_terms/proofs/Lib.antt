mod Admits
mod AdmittedTerms
pub mod CallerLemmas
mod Carrying
mod HandCalls
mod HandedTerms
mod Marking
mod NextPlans
mod PlanCounts
mod PlanFailing
mod PlannedTerms
mod TermSizes
mod TrueAnswers
mod Wanting
