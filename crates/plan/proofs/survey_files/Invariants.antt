-- The files before k passed; what was counted and what is left are the whole count; who of them has rows is said (Surveys).
use Rattle.std.proofs.Common.{◌≡◌, length}
use Rattle.plan.proofs.CountLaws.{CountingFiles}
use Rattle.plan.proofs.Surveys.{Surveying}
use Rattle.plan.proofs.survey_files.Given as goal

abbrev pub invariant-loop-k : goal.invariant-loop-k
invariant-loop-k l =
    (length l.slots ≡ 65536)
    × Surveying l.index l.recipes l.query l.has_rows l.k l.at l.total
    × CountingFiles l.query l.index l.recipes l.counts l.k
