-- Document 01 as definitions, a file for each section. What is proved of them stands in proofs/.
pub mod Numbers
pub mod Envelope
pub mod Admission
pub mod Queues
pub mod Box
pub mod Answers
pub mod Calls
pub mod Step
pub mod Plan
pub mod Run
pub mod Lines
pub mod Rest
pub mod RefusalTexts
