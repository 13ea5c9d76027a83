-- Objects that are read a member at a time.
use Rattle.std.proofs.Common.{◌≡◌, ℕ, ◌-◌, ◌<◌, ◌≤◌, List, [], ◌∷◌, ◌++◌, length, Option, Some, None, option_and_then, refl, ap, ◌∙◌, arith}
use Rattle.json.specs.Token.{Token}
use Rattle.json.specs.Json as json
use Rattle.json.specs.Json.{parse_map, read_key, members, value}
use Rattle.json.proofs.Grammar.{value-begin_object, members_end, members_more, read_key-shorter}
use Rattle.serde_json.specs.Data.{Data, object, Members, no_members, put}
use Rattle.serde_json.specs.Read.{of_json, of_members}
use Rattle.xet_document.specs.steps.Reads.{ReadsMembers, ReadsValue}

pub reads_object : (depth : ℕ) (before after : List Token) (ms : Members) → 0 < depth → ReadsMembers (depth - 1) before ms after → ReadsValue depth (Token.begin_object ∷ before) (object ms) after
reads_object depth before after ms some e = record {
  found = json.object e.found;
  reads = value-begin_object depth before some ∙ ap (parse_map json.object) e.reads;
  is = rw e.are refl;
}

-- these members of the grammar, and then the others
abbrev raw_behind : List (List ℕ × json.Json) → json.Members → json.Members
raw_behind [] rest = rest
raw_behind (m ∷ ms) rest = json.member m.0 m.1 (raw_behind ms rest)

raw-push : (ms : List (List ℕ × json.Json)) (k : List ℕ) (j : json.Json) (r : Option (json.Members × List Token))
    → parse_map (raw_behind ms) (parse_map (json.member k j) r) ≡ parse_map (raw_behind (ms ++ (k, j) ∷ [])) r
raw-push ms k j None = refl
raw-push ms k j (Some p) = ap (λ rest. Some (rest, p.1)) (go ms)
  where
    go : (ns : List (List ℕ × json.Json)) → raw_behind ns (json.member k j p.0) ≡ raw_behind (ns ++ (k, j) ∷ []) p.0
    go [] = refl
    go (n ∷ ns) = ap (json.member n.0 n.1) (go ns)

data-push : (ms : List (List ℕ × json.Json)) (k : List ℕ) (j : json.Json) (old read : Members) (d : Data) → of_members (raw_behind ms json.no_members) old ≡ Some read → of_json j ≡ Some d
    → of_members (raw_behind (ms ++ (k, j) ∷ []) json.no_members) old ≡ Some (put k d read)
data-push [] k j old read d e f = let same : old ≡ read = cc in rw (f, same) refl
data-push (m ∷ ms) k j old read d e f = go (of_json m.1) refl e (λ c h. data-push ms k j (put m.0 c old) read d h f)
  where
    go : (o : Option Data) → of_json m.1 ≡ o → option_and_then (λ c. of_members (raw_behind ms json.no_members) (put m.0 c old)) o ≡ Some read
        → ((c : Data) → of_members (raw_behind ms json.no_members) (put m.0 c old) ≡ Some read → of_members (raw_behind (ms ++ (k, j) ∷ []) json.no_members) (put m.0 c old) ≡ Some (put k d read))
        → of_members (raw_behind ((m ∷ ms) ++ (k, j) ∷ []) json.no_members) old ≡ Some (put k d read)
    go None g h again = absurd (cc)
    go (Some c) g h again = rw g (again c h)

-- of an object's members these were read, and these tokens are left
pub record MembersSoFar (depth : ℕ) (before after : List Token) (read : Members) : Type 0 where
  pub raw : List (List ℕ × json.Json)
  pub turns : ℕ
  pub enough : length after ≤ turns
  pub left : members (value depth) (length before) before ≡ parse_map (raw_behind raw) (members (value depth) turns after)
  pub are : of_members (raw_behind raw json.no_members) no_members ≡ Some read
  pub shorter : length after ≤ length before

same_members : (o : Option (json.Members × List Token)) → o ≡ parse_map (λ r. r) o
same_members None = refl
same_members (Some p) = refl

pub no_members_yet : (depth : ℕ) (before : List Token) → MembersSoFar depth before before no_members
no_members_yet depth before = record {
  raw = [];
  turns = length before;
  enough = omega arith;
  left = same_members (members (value depth) (length before) before);
  are = refl;
  shorter = omega arith;
}

pub member_more : (depth : ℕ) (before now rest after : List Token) (read : Members) (k : List ℕ) (d : Data) → MembersSoFar depth before now read → read_key now ≡ Some (Some k, rest) → length after < length rest
    → ReadsValue depth rest d after → MembersSoFar depth before after (put k d read)
member_more depth before now rest after read k d s key less e =
    let one = read_key-shorter now (Some k) rest key in record {
      raw = s.raw ++ (k, e.found) ∷ [];
      turns = s.turns - 1;
      enough = omega (arith, s.enough, one);
      left = s.left ∙ ap (parse_map (raw_behind s.raw)) (members_more (value depth) s.turns k now rest after e.found (omega (arith, s.enough, one)) key e.reads)
          ∙ raw-push s.raw k e.found (members (value depth) (s.turns - 1) after);
      are = data-push s.raw k e.found no_members read d s.are e.is;
      shorter = omega (arith, s.shorter, one);
    }

pub members_read : (depth : ℕ) (before now after : List Token) (read : Members) → MembersSoFar depth before now read → read_key now ≡ Some (None, after) → (ReadsMembers depth before read after) × (length after < length before)
members_read depth before now after read s over =
    let one = read_key-shorter now None after over in (
      record {
        found = raw_behind s.raw json.no_members;
        reads = s.left ∙ ap (parse_map (raw_behind s.raw)) (members_end (value depth) s.turns now after s.enough over);
        are = s.are;
      },
      omega (arith, s.shorter, one),
    )
