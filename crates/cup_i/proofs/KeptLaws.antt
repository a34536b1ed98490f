-- A product by simplices: those of its degree at which it is one.
--     kept-all                          all of them make the product
--     kept-ascending                    they ascend
use Rattle.std.proofs.Common.{◌≡◌, ℕ, List, sym, ap, ◌∙◌, subst}
use Rattle.std.specs.List.{filter}
use Rattle.std.specs.List.Sorted.{IsStrictlyIncreasing}
use Rattle.std.proofs.lemmas.List.Kept.{IsStrictlyIncreasing-filter}
use Rattle.homology.specs.Sets.{Ids, set_of}
use Rattle.homology.specs.Complexes.{Complex}
use Rattle.homology.specs.Chains.{IsChain}
use Rattle.homology.specs.Kinds.{ids}
use Rattle.homology.proofs.KindLaws.{set_of-chain}

pub kept-all : (K : Complex) (p : ℕ) (c : Ids) (xs kept : List ℕ) → IsChain K p c → xs ≡ ids K p → kept ≡ filter c xs → set_of kept ≡ c
kept-all K p c xs kept chain listed is = ap set_of (is ∙ ap (filter c) listed) ∙ set_of-chain K p c chain

pub kept-ascending : (c : Ids) (xs kept : List ℕ) → IsStrictlyIncreasing xs → kept ≡ filter c xs → IsStrictlyIncreasing kept
kept-ascending c xs kept up is = subst IsStrictlyIncreasing (sym is) (IsStrictlyIncreasing-filter c xs up)
