-- The changes of a book, step by step. A change that was cut off by a crash has been made up to one of its stages.
use Rattle.std.specs.Prelude.{ℕ, ◌==◌, nat_le, List, [], ◌∷◌, ◌++◌, map, filter, Result, Ok, Err, if◌then◌else◌}
use Rattle.mix_base.specs.declared.shards.Shape.{Shape}
use Rattle.spent_store.specs.Root.{shape_value}
use Rattle.spent_store.specs.Books.{EpochLog, StoredBook, has_begun}
use Rattle.spent_store.specs.declared.root.RootRecord.{RootRecord}
use Rattle.spent_store.specs.declared.root.RootRecord.TheVariants.{Made, Begin, Floor}
use Rattle.spent_store.specs.declared.faults.Objection.{Objection}

-- the floor raised to an epoch: what is below it is dropped, and the root says so
abbrev pub raised : ℕ → StoredBook → StoredBook
raised floor book =
    if nat_le floor book.floor then book
    else record { floor = floor; logs = filter (λ log. nat_le floor log.epoch) book.logs; roots = book.roots ++ Floor floor ∷ [] }

-- an epoch begun, with nothing spent in it
abbrev pub begun_with : ℕ → StoredBook → StoredBook
begun_with epoch book =
    if has_begun epoch book then book
    else record book { logs = book.logs ++ record { epoch = epoch; tags = [] } ∷ []; roots = book.roots ++ Begin epoch ∷ [] }

-- tags spent in a begun epoch, in their order behind those spent in it before
abbrev pub log_with : ℕ → List (List ℕ) → EpochLog → EpochLog
log_with epoch tags log = record { epoch = log.epoch; tags = (if log.epoch == epoch then log.tags ++ tags else log.tags) }

abbrev pub added : ℕ → List (List ℕ) → StoredBook → StoredBook
added epoch tags book = record book { logs = map (log_with epoch tags) book.logs }

-- ---- the stages of a claim of an epoch's tags, where `least` is the least epoch that was live at the receipt; that of
-- one tag is a list of one

abbrev pub claimed : ℕ → List (List ℕ) → ℕ → StoredBook → StoredBook
claimed epoch tags least book = added epoch tags (begun_with epoch (raised least book))

abbrev pub claim_stages : ℕ → List (List ℕ) → ℕ → StoredBook → List StoredBook
claim_stages epoch tags least book =
    book ∷ raised least book ∷ begun_with epoch (raised least book) ∷ claimed epoch tags least book ∷ []

-- of a retirement up to a floor
abbrev pub retirement_stages : ℕ → StoredBook → List StoredBook
retirement_stages floor book = book ∷ raised floor book ∷ []

-- ---- the making of a root

-- a root without a record gets the one of its shape
abbrev pub with_made : Shape → List RootRecord → List RootRecord
with_made shape [] = Made (shape_value shape) ∷ []
with_made shape (root ∷ roots) = root ∷ roots

abbrev pub made : Shape → StoredBook → StoredBook
made shape book = record book { roots = with_made shape book.roots }

-- what an area may open to after its root was made; what is objected to stays
abbrev pub made_where_read : Shape → Result StoredBook Objection → Result StoredBook Objection
made_where_read shape (Ok book) = Ok (made shape book)
made_where_read shape (Err objection) = Err objection
