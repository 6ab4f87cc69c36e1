-- Refusals and answers as the functions give them, in document 01's numbers.
use Rattle.std.specs.Prelude.{ℕ, Result, Ok, Err}
use Rattle.spec.specs.declared.Refusal.{Refusal}
use Rattle.spec.specs.declared.Refusal.TheVariants.{KeywordsCut, KeywordsHeader, KeywordLength, KeywordsAlike, StoreMarkWrong, StoreDirectoryCut}
use Rattle.spec.specs.declared.Refusal.TheVariants.{StoreEntryWrong, StoreDuplicate, OutputTooLong, IndexMarkWrong, IndexEntryWrong, IndexDuplicate}
use Rattle.spec.specs.declared.Refusal.TheVariants.{BodyNotGood, RecipesWrong, NotFound, FileTooLong, InnerChunkShort, ListTooLong, FingerprintLength}
use Rattle.spec.specs.declared.Refusal.TheVariants.{StoreEntryBeyond, QueryWrong, KeyWrong, CountTooLarge, FileNumberWrong}
use Rattle.spec.specs.Outcome.{keywords_cut, keywords_header, keyword_length, keywords_alike, store_mark_wrong, store_directory_cut, store_entry_wrong}
use Rattle.spec.specs.Outcome.{store_duplicate, index_too_long, index_mark_wrong, index_entry_wrong, index_duplicate, body_not_good, recipes_wrong, not_found}
use Rattle.spec.specs.Outcome.{file_too_long, inner_chunk_short, list_too_long, fingerprint_length, store_entry_beyond, query_wrong, key_wrong}
use Rattle.spec.specs.Outcome.{count_too_large, file_number_wrong}
use Rattle.spec.specs.Outcome.{Outcome, Done, Refused}

-- The number of a refusal.
abbrev pub number_of : Refusal → ℕ
number_of KeywordsCut = keywords_cut
number_of KeywordsHeader = keywords_header
number_of KeywordLength = keyword_length
number_of KeywordsAlike = keywords_alike
number_of StoreMarkWrong = store_mark_wrong
number_of StoreDirectoryCut = store_directory_cut
number_of StoreEntryWrong = store_entry_wrong
number_of StoreDuplicate = store_duplicate
number_of OutputTooLong = index_too_long
number_of IndexMarkWrong = index_mark_wrong
number_of IndexEntryWrong = index_entry_wrong
number_of IndexDuplicate = index_duplicate
number_of BodyNotGood = body_not_good
number_of RecipesWrong = recipes_wrong
number_of NotFound = not_found
number_of FileTooLong = file_too_long
number_of InnerChunkShort = inner_chunk_short
number_of ListTooLong = list_too_long
number_of FingerprintLength = fingerprint_length
number_of StoreEntryBeyond = store_entry_beyond
number_of QueryWrong = query_wrong
number_of KeyWrong = key_wrong
number_of CountTooLarge = count_too_large
number_of FileNumberWrong = file_number_wrong

-- The number of a check's answer: 0 where there is no refusal.
abbrev pub number : {A : Type 0} → Result A Refusal → ℕ
number (Ok value) = 0
number (Err refusal) = number_of refusal

-- What the result of an operation that writes or counts says.
abbrev pub outcome_of : Result ℕ Refusal → Outcome
outcome_of (Ok value) = Done value
outcome_of (Err refusal) = Refused (number_of refusal)
