-- The box in lent 32-bit words: where each thing lies, what the words stand for, and when they are sound.
pub mod Places
pub mod Contents
pub mod Sound
pub mod Tested
pub mod Changes
