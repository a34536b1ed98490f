-- Beginnings of a line, and sessions that stand on one.
--     front-self, front-trans     each line begins itself, and what its beginnings begin with
--     front-length                a beginning is not longer
--     version-front               the last version of a beginning is a version of the line
--     stands-more                 what stands on a line stands on a longer one
--     stands-seen                 and may have seen all of that
--     stands-brought              and may use it
use Rattle.std.proofs.Common.{◌≡◌, ℕ, ◌≤◌, [], ◌++◌, length, sym, ap, ◌∙◌, arith, append_assoc, append-nil, length-append}
use mathlib.Core.List.{IsPrefix}
use Rattle.lines.specs.Lines.{Line, cuts, version}
use Rattle.lines.proofs.LineLaws.{version-kept}
use Rattle.session_core.specs.Holdings.{Holding, Stands}

pub front-self : (L : Line) → IsPrefix L L
front-self L = ([], append-nil L)

pub front-trans : (K L M : Line) → IsPrefix K L → IsPrefix L M → IsPrefix K M
front-trans K L M p q = (p.0 ++ q.0, sym (append_assoc K p.0 q.0) ∙ ap (λ (w : Line). w ++ q.0) p.1 ∙ q.1)

pub front-length : (K L : Line) → IsPrefix K L → length K ≤ length L
front-length K L front = omega (arith, ap length front.1, length-append K front.0)

pub version-front : (K L : Line) → IsPrefix K L → version L (cuts K) ≡ version K (cuts K)
version-front K L front = ap (λ (J : Line). version J (cuts K)) (sym front.1) ∙ version-kept K front.0 (cuts K) (omega arith)

pub stands-more : (h : Holding) (L M : Line) → Stands h L → IsPrefix L M → Stands h M
stands-more h L M S front = record {
  seen = omega (arith, S.seen, front-length L M front);
  names = λ k d below. front-trans _ L M (S.names k d below) front;
  in_use = front-trans h.in_use L M S.in_use front;
}

pub stands-seen : (h : Holding) (L M : Line) (n : ℕ) → Stands h L → IsPrefix L M → n ≡ length M → Stands (record h { seen = n }) M
stands-seen h L M n S front is =
    let more = stands-more h L M S front in
    record { seen = omega (arith, is); names = more.names; in_use = more.in_use }

pub stands-brought : (h : Holding) (L M : Line) (n : ℕ) → Stands h L → IsPrefix L M → n ≡ length M → Stands (record h { seen = n; in_use = M }) M
stands-brought h L M n S front is =
    let more = stands-more h L M S front in
    record { seen = omega (arith, is); names = more.names; in_use = front-self M }
