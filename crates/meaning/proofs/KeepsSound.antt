-- "A new box is sound, and every call on a sound state leaves a sound one."
pub use Rattle.meaning.proofs.KeptByAdmission.{new_box_sound, admission_keeps_sound}
pub use Rattle.meaning.proofs.KeptByOffer.{offer_keeps_sound}
pub use Rattle.meaning.proofs.KeptByStep.{step_keeps_sound}
