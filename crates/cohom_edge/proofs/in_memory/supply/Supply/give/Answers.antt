-- The copied bytes are the first of those left, and none only where none are left.
use Rattle.std.proofs.Common.{length, drop, take, ◌≡◌, ◌∙◌, ap, sym, arith}
use Rattle.cohom_edge.proofs.Contents.{split_given, ends_at_zero}
use Rattle.cohom_edge.proofs.in_memory.supply.Supply.give.Goals as goal

pub returns-clause-bytes : goal.returns-clause-bytes
returns-clause-bytes c =
    let s = c.self.inside in
    let n = c.min-count.result in
    let rest : c.rest-rest.result.now ≡ drop s.given s.bytes.items = c.rest-rest.ensures ∙ ap (λ v. v.left) (sym c.self.view_is) in
    let long = ap length rest in
    rw (← c.self.view_is) (split_given s.bytes.items c.copy_from_slice.new.self (drop n c.args.buf.now) s.given n
    (omega (arith, long, c.min-count.ensures, c.min.ensures))
    (c.copy_from_slice.ensures.after ∙ ap (take n) rest))

pub returns-clause-end : goal.returns-clause-end
returns-clause-end c =
    let s = c.self.inside in
    let rest : c.rest-rest.result.now ≡ drop s.given s.bytes.items = c.rest-rest.ensures ∙ ap (λ v. v.left) (sym c.self.view_is) in
    let long = ap length rest in
    rw (← c.self.view_is) (ends_at_zero (drop s.given s.bytes.items) s.piece (length c.args.buf.now) c.min-count.result c.self.invariant.0 c.requires
    (omega (arith, long, c.min-count.ensures, c.min.ensures)))
