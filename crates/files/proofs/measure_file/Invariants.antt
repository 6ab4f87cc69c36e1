-- Before place j, what the places from j on still add, and still write.
use Rattle.files.specs.Measures.{least_in}
use Rattle.files.proofs.Places.{Before}
use Rattle.files.proofs.measure_file.Given as goal

abbrev pub invariant-loop-j : goal.invariant-loop-j
invariant-loop-j l =
    Before l.file l.index l.opened.directory l.opened.entries (least_in l.opened) l.initial.slots l.j l.total l.short l.slots
