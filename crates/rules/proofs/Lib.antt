pub mod GoalSteps
pub mod Meaning
pub mod RuleSteps
pub mod Runs
pub mod TermSteps
pub mod Verdicts
