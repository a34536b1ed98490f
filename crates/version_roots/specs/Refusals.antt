-- The refusal of an attachment, as a board tells it.
--     SaysTheSame r q     the refusal q of a board says what the refusal r of a complex does
use Rattle.std.specs.Prelude.{◌≡◌}
use Rattle.complex_store.specs.declared.refusal.AttachRefusal.{AttachRefusal}
use Rattle.complex_store.specs.declared.refusal.AttachRefusal.TheVariants as attach
use Rattle.version_roots.specs.declared.refusals.BoardRefusal.{BoardRefusal}
use Rattle.version_roots.specs.declared.refusals.BoardRefusal.TheVariants as refusal

abbrev pub SaysTheSame : AttachRefusal → BoardRefusal → Type 0
SaysTheSame (attach.There id) q = q ≡ refusal.There id
SaysTheSame (attach.Face t) q = q ≡ refusal.Face t
SaysTheSame (attach.Full n) q = q ≡ refusal.Full n
SaysTheSame attach.Memory q = q ≡ refusal.Memory
