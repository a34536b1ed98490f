-- The maps of the exact sequence of a pair on classes.
--     included-coboundary     a relative coboundary is a coboundary
--     connect-same            cohomologous cocycles of the part connect to one class
--     connect-zero            a class connects to zero exactly where it comes from the whole
use Rattle.std.proofs.Common.{◌≡◌, ◌↔◌, ℕ, zero, suc, [], length, refl, sym, ap, ◌∙◌, subst, add-one}
use Rattle.homology.specs.Sets.{Ids, empty, plus}
use Rattle.homology.specs.Complexes.{Complex, IsComplex}
use Rattle.homology.specs.Chains.{IsCocycle, IsCoboundary, AreCohomologous}
use Rattle.homology.proofs.ParityLaws.{odd-none}
use Rattle.homology.proofs.SetLaws.{plus-empty}
use Rattle.cohomology.proofs.Cocycles.{plus-cocycle}
use Rattle.cohomology.proofs.ClassLaws.{empty-chain}
use Rattle.pairs.specs.Pairs.{IsPart, IsRelativeCocycle, IsRelativeCoboundary}
use Rattle.pairs.specs.Sequences.{connecting_cochain, connect}
use Rattle.pairs.specs.Exactness.{ComesFromWhole}
use Rattle.pairs.proofs.PartLaws.{moved-empty}
use Rattle.pairs.proofs.ExactLaws.{connected, connecting-plus, exact-part, part-exact}
use Rattle.pairs.proofs.RelativeClassLaws.{class-same, class-zero}

pub included-coboundary : (K A : Complex) (p : ℕ) (e : Ids) → IsRelativeCoboundary K A p e → IsCoboundary K p e
included-coboundary K A zero e none = none
included-coboundary K A (suc p) e u = (u.0, u.1.chain, u.2)

module _ (K A : Complex) (k : IsComplex K) (a_ok : IsComplex A) (part : IsPart K A) (p : ℕ) where
  connects : (a : Ids) → IsCocycle A p a → IsRelativeCocycle K A (suc p) (connecting_cochain K A a)
  connects a cocycle = subst (λ q. IsRelativeCocycle K A q (connecting_cochain K A a)) (add-one p) (connected K A k a_ok part p a cocycle)

  pub connect-zero : (a : Ids) → IsCocycle A p a → (connect K A p a ≡ []) ↔ ComesFromWhole K A p a
  connect-zero a cocycle =
      let zero = class-zero K A k a_ok part (suc p) (connecting_cochain K A a) (connects a cocycle) in
      (λ e. exact-part K A k a_ok part p a cocycle (zero.0 e), λ C. zero.1 (part-exact K A k a_ok part p a cocycle C))

  -- a coboundary comes from the empty cocycle
  pub connect-same : (a b : Ids) → AreCohomologous A p a b → connect K A p a ≡ connect K A p b
  connect-same a b C = (class-same K A k a_ok part (suc p) (connecting_cochain K A a) (connecting_cochain K A b) (connects a C.first) (connects b C.second)).1
      (subst (IsRelativeCoboundary K A (suc p)) (connecting-plus K A a b)
      (part-exact K A k a_ok part p (plus a b) (plus-cocycle A p a b C.first C.second) (record {
        whole = empty;
        cocycle = record { cochain = empty-chain K p; closed = λ x _. odd-none (length K) _ (λ t _. refl) };
        same = subst (IsCoboundary A p) (sym (ap (plus (plus a b)) (moved-empty K A) ∙ plus-empty (plus a b))) C.differ_by_coboundary;
      })))
