-- What a change makes of a line, and how that is told.
--     Added J c x L                the change x of the caller c on the line J is judged to come in, and L is the line then
--     IsReceipt J L r              the receipt r of what was added to J, which is L then
--     IsCutReceipt L r, IsBackReceipt L v r     the receipts of a cut and of a return to v, after which the line is L
--     refusal_of r, cut_refusal_of r, back_refusal_of r     what a refusal says; None of want of memory
--     Refused J c x why            the change x is refused so; want of memory may come at any
use Rattle.std.specs.Prelude.{⊤, ◌≡◌, ℕ, ◌+◌, ◌++◌, length, Option, Some, None, Ok, Err}
use Rattle.lines.specs.Lines.{Line, cuts}
use Rattle.lines.specs.Changes.{Change, Refusal, IsThere, LacksFace, IsFull, NoVersion, judged}
use Rattle.lines.specs.Changes as change
use Rattle.version_roots.specs.declared.receipts.Receipt.{Receipt}
use Rattle.version_roots.specs.declared.receipts.CutReceipt.{CutReceipt}
use Rattle.version_roots.specs.declared.receipts.BackReceipt.{BackReceipt}
use Rattle.version_roots.specs.declared.refusals.BoardRefusal.{BoardRefusal}
use Rattle.version_roots.specs.declared.refusals.BoardRefusal.TheVariants as refusal
use Rattle.version_roots.specs.declared.refusals.CutRefusal.{CutRefusal}
use Rattle.version_roots.specs.declared.refusals.CutRefusal.TheVariants as cut
use Rattle.version_roots.specs.declared.refusals.BackRefusal.{BackRefusal}
use Rattle.version_roots.specs.declared.refusals.BackRefusal.TheVariants as back

pub record Added (J : Line) (c : ℕ) (x : Change) (L : Line) : Type 0 where
  pub entries : Line
  pub so : judged J c x ≡ Ok entries
  pub whole : L ≡ J ++ entries

pub record IsReceipt (J L : Line) (r : Receipt) : Type 0 where
  pub first : r.first ≡ length J
  pub added : r.first + r.added ≡ length L
  pub entries : r.entries ≡ length L

pub record IsCutReceipt (L : Line) (r : CutReceipt) : Type 0 where
  pub version : r.version ≡ cuts L
  pub entries : r.entries ≡ length L
  pub root : r.root ≡ L

pub record IsBackReceipt (L : Line) (v : ℕ) (r : BackReceipt) : Type 0 where
  pub version : r.version ≡ v
  pub entries : r.entries ≡ length L

abbrev pub refusal_of : BoardRefusal → Option Refusal
refusal_of (refusal.There id) = Some (IsThere id)
refusal_of (refusal.Face t) = Some (LacksFace t)
refusal_of (refusal.Full n) = Some (IsFull n)
refusal_of refusal.Memory = None

abbrev pub cut_refusal_of : CutRefusal → Option Refusal
cut_refusal_of (cut.Full n) = Some (IsFull n)
cut_refusal_of cut.Memory = None

abbrev pub back_refusal_of : BackRefusal → Option Refusal
back_refusal_of (back.NoVersion n) = Some (NoVersion n)
back_refusal_of (back.Full n) = Some (IsFull n)
back_refusal_of back.Memory = None

abbrev pub Refused : Line → ℕ → Change → Option Refusal → Type 0
Refused J c x (Some why) = judged J c x ≡ Err why
Refused J c x None = ⊤
