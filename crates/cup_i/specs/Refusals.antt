-- The refusals of the cap product; want of memory may come at any.
--     CapRefuses p n r      r says why a cochain of degree p and a chain of degree n have no cap product
use Rattle.std.specs.Prelude.{◌≡◌, ℕ, ◌<◌, ⊤}
use Rattle.cup_i.specs.declared.refusal.CapRefusal.{CapRefusal}
use Rattle.cup_i.specs.declared.refusal.CapRefusal.TheVariants as refusal

pub record AreDegrees (p n cochain chain : ℕ) : Type 0 where
  pub greater : n < p
  pub cochain_is : cochain ≡ p
  pub chain_is : chain ≡ n

abbrev pub CapRefuses : ℕ → ℕ → CapRefusal → Type 0
CapRefuses p n (refusal.Degrees cochain chain) = AreDegrees p n cochain chain
CapRefuses p n refusal.Memory = ⊤
