-- Why a complex is not closed, and why its links are not those of spheres; want of memory may come at any.
--     closed_said r, link_said r             what r says; nothing where no memory was left
--     ClosedRefuses v r, LinkRefuses v r     this is what v says
use Rattle.std.specs.Prelude.{◌≡◌, ℕ, Option, Some, None, IfSome, Result, Err}
use Rattle.manifolds.specs.Closed.{NotClosed, Nothing, NotPure, Ridge}
use Rattle.manifolds.specs.Links.{NotSphere, Link}
use Rattle.manifold_links.specs.declared.refusal.ClosedRefusal.{ClosedRefusal}
use Rattle.manifold_links.specs.declared.refusal.ClosedRefusal.TheVariants as closed
use Rattle.manifold_links.specs.declared.refusal.LinkRefusal.{LinkRefusal}
use Rattle.manifold_links.specs.declared.refusal.LinkRefusal.TheVariants as linked

abbrev pub closed_said : ClosedRefusal → Option NotClosed
closed_said closed.Nothing = Some Nothing
closed_said (closed.NotPure s) = Some (NotPure s)
closed_said (closed.Ridge s times) = Some (Ridge s times)
closed_said closed.Memory = None

abbrev pub ClosedRefuses : Result ℕ NotClosed → ClosedRefusal → Type 0
ClosedRefuses v r = IfSome (closed_said r) (λ why. v ≡ Err why)

abbrev pub link_said : LinkRefusal → Option NotSphere
link_said (linked.Link s bettis) = Some (Link s bettis.items)
link_said linked.Memory = None

abbrev pub LinkRefuses : Result (Unit {0}) NotSphere → LinkRefusal → Type 0
LinkRefuses v r = IfSome (link_said r) (λ why. v ≡ Err why)
