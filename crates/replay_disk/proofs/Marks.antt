-- The writes that marks stand for, after one more and after those of an area have gone.
use Rattle.std.proofs.Common.{◌≡◌, ℕ, true, false, cond, List, [], ◌∷◌, ◌++◌, length, take, drop, map, refl, sym, ◌∙◌, ap, arith}
use Rattle.std.proofs.lemmas.List.{take-append-le, drop-append-le, take_all, drop_at, map_push, length-drop, length-append}
use Rattle.std.specs.Prelude.{filter, not, ◌==◌}
use Rattle.replay_disk.specs.declared.write_log.Mark.{Mark}
use Rattle.replay_disk.specs.MemoryRack.{Write, without_area}
use Rattle.replay_disk.specs.WriteLog.{write_of, writes_of, AreMarked}

-- bytes behind those that are there change no write
pub writes_of-append : (bytes more : List ℕ) (marks : List Mark) → AreMarked bytes marks → writes_of (bytes ++ more) marks ≡ writes_of bytes marks
writes_of-append bytes more [] marked = refl
writes_of-append bytes more (mark ∷ marks) marked =
    let rest = writes_of-append bytes more marks marked.1 in
    let within = marked.0 in
    let dropped : drop mark.from (bytes ++ more) ≡ drop mark.from bytes ++ more = drop-append-le mark.from bytes more (omega arith) in
    let same : take mark.size (drop mark.from (bytes ++ more)) ≡ take mark.size (drop mark.from bytes) =
    ap (λ (xs : List ℕ). take mark.size xs) dropped ∙ take-append-le mark.size (drop mark.from bytes) more (omega (arith, length-drop mark.from bytes)) in
    let first : write_of (bytes ++ more) mark ≡ write_of bytes mark = ap (λ (xs : List ℕ). let w : Write = record { area = mark.area; place = mark.place; bytes = xs } in w) same in
    (λ i. first i ∷ rest i)

-- a mark behind the others, whose bytes stand behind theirs
pub writes_of-push : (bytes more : List ℕ) (marks : List Mark) (mark : Mark) → AreMarked bytes marks → mark.from ≡ length bytes → mark.size ≡ length more
    → writes_of (bytes ++ more) (marks ++ mark ∷ []) ≡ writes_of bytes marks ++ (record { area = mark.area; place = mark.place; bytes = more }) ∷ []
writes_of-push bytes more marks mark marked from size =
    let own : take mark.size (drop mark.from (bytes ++ more)) ≡ more =
    ap (λ (xs : List ℕ). take mark.size xs) (drop_at bytes more mark.from (sym from)) ∙ take_all mark.size more (omega arith) in
    let last : write_of (bytes ++ more) mark ≡ record { area = mark.area; place = mark.place; bytes = more } = ap (λ (xs : List ℕ). let w : Write = record { area = mark.area; place = mark.place; bytes = xs } in w) own in
    map_push (write_of (bytes ++ more)) marks mark ∙ (λ i. writes_of-append bytes more marks marked i ++ last i ∷ [])

pub AreMarked-push : (bytes more : List ℕ) (marks : List Mark) (mark : Mark) → AreMarked bytes marks → mark.from ≡ length bytes → mark.size ≡ length more
    → AreMarked (bytes ++ more) (marks ++ mark ∷ [])
AreMarked-push bytes more [] mark marked from size = (omega (arith, length-append bytes more), tt)
AreMarked-push bytes more (first ∷ marks) mark marked from size =
    let within = marked.0 in (omega (arith, length-append bytes more), AreMarked-push bytes more marks mark marked.1 from size)

-- the marks of an area go, and its writes with them
pub writes_of-filter : (bytes : List ℕ) (area : ℕ) (marks : List Mark) → writes_of bytes (filter (λ mark. not (mark.area == area)) marks) ≡ without_area area (writes_of bytes marks)
writes_of-filter bytes area [] = refl
writes_of-filter bytes area (mark ∷ marks) =
    let kept : List Mark = filter (λ (m : Mark). not (m.area == area)) marks in
    let writes : List Write = without_area area (writes_of bytes marks) in
    let rest : map (write_of bytes) kept ≡ writes = writes_of-filter bytes area marks in
    elim (mark.area == area) as (λ b. map (write_of bytes) (cond (not b) (mark ∷ kept) kept) ≡ cond (not b) (write_of bytes mark ∷ writes) writes) [
      | true ↦ rest
      | false ↦ ap (λ (ws : List Write). write_of bytes mark ∷ ws) rest
    ]

pub AreMarked-filter : (bytes : List ℕ) (area : ℕ) (marks : List Mark) → AreMarked bytes marks → AreMarked bytes (filter (λ mark. not (mark.area == area)) marks)
AreMarked-filter bytes area [] marked = tt
AreMarked-filter bytes area (mark ∷ marks) marked =
    let kept : List Mark = filter (λ (m : Mark). not (m.area == area)) marks in
    let rest : AreMarked bytes kept = AreMarked-filter bytes area marks marked.1 in
    elim (mark.area == area) as (λ b. AreMarked bytes (cond (not b) (mark ∷ kept) kept)) [ true ↦ rest | false ↦ (marked.0, rest) ]
