-- What is told of a book.
use Rattle.std.specs.Prelude.{length}
use Rattle.spent_store.specs.Books.{StoredBook, spent}
use Rattle.spent_store.specs.declared.summary.Book.{Book}

-- the floor, the number of different spent pairs, and the number of root records
abbrev pub summary : StoredBook → Book
summary book = record { floor = book.floor; spent = spent book; root = length book.roots }
