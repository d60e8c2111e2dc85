-- What a sink was given of the lines of a report.
use Rattle.std.proofs.Common.{◌≡◌, ℕ, ◌+◌, List, ◌∷◌, ◌++◌, length, take, drop, Option, Some, None, Result, Ok, Err, OnErr, IfSome, IsSomeAnd, ap, sym, ◌∙◌, append_assoc}
use Rattle.std.proofs.lemmas.List.{take-append-drop}
use Rattle.std.proofs.lemmas.List.Concat.{flat_map-cons}
use Rattle.std.proofs.Math.Seq.{take-append-add, take-append_seam}
use Rattle.std.specs.List.{flat_map}
use Rattle.mix_base.specs.Writing.{GivesFront}
use Rattle.mix_waves.specs.Report.{text_of}
use Rattle.mix_waves.specs.declared.report.ReportLine.{ReportLine}

-- what was given, and the lines from a place on, are all
abbrev pub HasGiven : Option (List ℕ) → Option (List ℕ) → List ReportLine → ℕ → Type 0
HasGiven before after lines place =
    IfSome before (λ first. (bytes : List ℕ) × (after ≡ Some (first ++ bytes)) × (bytes ++ flat_map text_of (drop place lines) ≡ flat_map text_of lines))

-- a front of what stands behind a text
front_of : (bytes line rest : List ℕ) (n : ℕ) → take (length bytes + length (take n line)) (bytes ++ (line ++ rest)) ≡ bytes ++ take n line
front_of bytes line rest n =
    take-append-add bytes (line ++ rest) (length (take n line))
    ∙ ap (λ (xs : List ℕ). bytes ++ take (length (take n line)) xs)
    (ap (λ (xs : List ℕ). xs ++ rest) (sym (take-append-drop n line)) ∙ append_assoc (take n line) (drop n line) rest)
    ∙ ap (λ (xs : List ℕ). bytes ++ xs) (take-append_seam (take n line) (drop n line ++ rest))

-- a front of the report was given
abbrev pub GaveFront : Option (List ℕ) → Option (List ℕ) → List ReportLine → Type 0
GaveFront before after lines = IfSome before (λ first. IsSomeAnd after (λ last. GivesFront first last (flat_map text_of lines)))

pub gave_front : (before after : Option (List ℕ)) (lines : List ReportLine) (place : ℕ) → HasGiven before after lines place → GaveFront before after lines
gave_front None after lines place gave = tt
gave_front (Some first) None lines place (bytes, is, all) = absurd (cc)
gave_front (Some first) (Some last) lines place (bytes, is, all) =
    let same : last ≡ first ++ bytes = cc in (
      length bytes,
      same ∙ ap (λ (xs : List ℕ). first ++ xs)
          (sym (take-append_seam bytes (flat_map text_of (drop place lines))) ∙ ap (take (length bytes)) all),
    )

-- a fact of a refusal, where it holds in any case
pub on_err : {X E : Type 0} (result : Result X E) (fact : Type 0) → fact → OnErr result fact
on_err (Ok x) fact holds = tt
on_err (Err why) fact holds = holds

pub gave_part : (before mid after : Option (List ℕ)) (lines : List ReportLine) (place : ℕ) (line : ReportLine) (behind : List ReportLine) → HasGiven before mid lines place
    → drop place lines ≡ line ∷ behind → IfSome mid (λ given. IsSomeAnd after (λ last. GivesFront given last (text_of line)))
    → GaveFront before after lines
gave_part None mid after lines place line behind gave split put = tt
gave_part (Some first) None after lines place line behind (bytes, is, all) split put = absurd (cc)
gave_part (Some first) (Some given) None lines place line behind (bytes, is, all) split put = absurd put
gave_part (Some first) (Some given) (Some last) lines place line behind (bytes, is, all) split (n, put) =
    let same : given ≡ first ++ bytes = cc in
    let rest = flat_map text_of behind in
    let whole : bytes ++ (text_of line ++ rest) ≡ flat_map text_of lines =
    ap (λ (xs : List ℕ). bytes ++ xs) (sym (flat_map-cons text_of line behind) ∙ ap (flat_map text_of) (sym split)) ∙ all in
    let m = length bytes + length (take n (text_of line)) in (
      m,
      put ∙ ap (λ (xs : List ℕ). xs ++ take n (text_of line)) same ∙ append_assoc first bytes (take n (text_of line))
          ∙ ap (λ (xs : List ℕ). first ++ xs) (sym (front_of bytes (text_of line) rest n) ∙ ap (take m) whole),
    )
