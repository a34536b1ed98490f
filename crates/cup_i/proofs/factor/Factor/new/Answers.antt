use Rattle.std.proofs.Common.{ℕ, ◌<◌, length, ◌∙◌, arith}
use Rattle.std.specs.List.{All}
use Rattle.cup_i.proofs.FactorLaws.{members-within}
use Rattle.cup_i.proofs.factor.Factor.new.Goals as goal

pub marks_of-requires-clause-within : goal.marks_of-requires-clause-within
marks_of-requires-clause-within c =
    let K = c.args.k.now in
    let all : All (λ (t : ℕ). t < length K) c.ids.result.now =
    members-within K c.args.cochain.now.degree c.args.cochain.now.ids c.ids.result.now (c.ids.ensures.ids ∙ c.support.ensures) c.requires in
    λ k d h. omega (arith, all k d h, c.len.ensures.count)
