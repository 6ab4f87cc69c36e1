use Rattle.std.proofs.Common.{◌≡◌, ◌-◌, ◌≤◌, length, drop}
use Rattle.spec.specs.Recipes.{files_whole}
use Rattle.recipes.proofs.files_whole.Given as goal

abbrev pub invariant-loop : goal.invariant-loop
invariant-loop l = (l.at ≤ length l.recipes) × (files_whole (l.count - l.counter) (drop l.at l.recipes) ≡ files_whole l.count (drop 4 l.recipes))
