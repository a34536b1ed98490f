-- A free place is taken, and there is always one.
use Rattle.std.proofs.Common.{◌≡◌, ◌<◌, ◌≤◌, false, List, length, sym, ap, ◌∙◌, arith}
use Rattle.lines.specs.Lines.{Line}
use Rattle.session_core.specs.declared.kept.Named.{Named}
use Rattle.session_core.specs.Places.{held_by, root_at, stands_for}
use Rattle.session_core.proofs.HeldLaws.{brought}
use Rattle.session_core.proofs.PlaceLaws.{held-put, kept-put, root-put}
use Rattle.session_core.proofs.session.Session.bring.Goals as goal

pub invariant_of-self : goal.invariant_of-self
invariant_of-self c =
    let names = c.self.inside.names in
    let roots = c.self.inside.roots in
    let place = c.free_place-place.result in
    let within : place ≤ length roots.items = omega (arith, c.free_place-place.ensures.within, c.len.ensures, roots.ok.0) in
    let free : place < length roots.items → stands_for names.items c.self.inside.cached place ≡ false =
    λ below. ap (λ (ns : List Named). stands_for ns c.self.inside.cached place) (sym c.as_slice.ensures.value)
    ∙ c.free_place-place.ensures.free (omega (arith, below, c.len.ensures, roots.ok.0)) in
    kept-put names roots c.put_at.new.roots c.self.inside.in_use c.self.inside.cached place c.self.inside.cache c.args.root c.self.invariant within free c.put_at.ensures.items
    (omega (arith, c.self.invariant.room_for_roots, c.put_at.ensures.capacity))

pub returns : goal.returns
returns c =
    let names = c.self.inside.names in
    let roots = c.self.inside.roots in
    let place = c.free_place-place.result in
    let within : place ≤ length roots.items = omega (arith, c.free_place-place.ensures.within, c.len.ensures, roots.ok.0) in
    let free : place < length roots.items → stands_for names.items c.self.inside.cached place ≡ false =
    λ below. ap (λ (ns : List Named). stands_for ns c.self.inside.cached place) (sym c.as_slice.ensures.value)
    ∙ c.free_place-place.ensures.free (omega (arith, below, c.len.ensures, roots.ok.0)) in
    brought c.self.inside.seen names roots c.put_at.new.roots c.self.inside.in_use place c.args.self.now c.args.root c.self.view_is
    (ap (λ (rs : List Line). held_by rs names.items) c.put_at.ensures.items ∙ held-put roots.items c.args.root names.items c.self.inside.cached place c.self.invariant.places within free)
    (ap (λ (rs : List Line). root_at rs place) c.put_at.ensures.items ∙ root-put roots.items c.args.root place within)
