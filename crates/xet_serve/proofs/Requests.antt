-- Answers to requests and to lines.
use Rattle.std.proofs.Common.{◌≡◌, ℕ, zero, suc, Bool, true, false, cond, List, length, None, Some, Ok, Err, refl, sym, subst, ◌∙◌, ap, inl, inr, ⊎_elim}
use Rattle.std.specs.Prelude.{OnOk, Option, Result, codes, is_none, position}
use Rattle.xet_base.specs.declared.error.OutOfMemory.{OutOfMemory}
use Rattle.xet_base.specs.Store.{Store}
use Rattle.xet_serve_lines.specs.Lines.{is_quit}
use Rattle.xet_serve_lines.specs.Replies.{number_line, word_line}
use Rattle.xet_serve_lines.specs.Requests.{Asked, request_of}
use Rattle.xet_serve.specs.declared.fetch.Fetched.TheVariants as fetched
use Rattle.xet_serve.specs.Replies.{asks_missing, is_long, is_run_request, ok_text, range_reply, request_reply}
use Rattle.xet_serve.specs.Sessions.{answer_text}
use Rattle.xet_serve.specs.steps.Answering.{LineCall, LineReplied, RangesCall, RequestCall, RequestReplied, request_answer}
use Rattle.xet_serve.specs.steps.Fetching.{GoesOn, IsConnectionError, Lent}
use Rattle.xet_serve.proofs.Fails.{no_fail}
use Rattle.xet_serve.proofs.Goings.{goes_same}
use Rattle.xet_serve.proofs.Ranges.{not_missing}

-- the reply itself
replied : (s : Store) (tries : ℕ) (o : Option Asked) (b n : Lent) (text : List ℕ) → GoesOn b n → text ≡ request_reply s o
    → RequestReplied s tries o b n text
replied s tries o b n text g e = record {
  k = 0;
  may = inl refl;
  is = e;
  few = no_fail tries b.clients n.clients g.clients;
}

-- without runs
pub refused_line : (tries : ℕ) (o : Option Asked) (b : Lent) (text : List ℕ) → ((s : Store) → text ≡ request_reply s o)
    → RequestCall tries o b b text (Ok tt)
refused_line tries o b text e = record {
  goes_on = goes_same b;
  done = λ s i t. replied s tries o b b text (goes_same b) (e s);
}

pub request_short : (tries : ℕ) (o : Option Asked) (b n : Lent) (text : List ℕ) (e : OutOfMemory) → GoesOn b n
    → RequestCall tries o b n text (Err e)
request_short tries o b n text e g = record { goes_on = g; done = λ s i t. tt }

-- whatever the answer is
pub refused_by : (tries : ℕ) (o : Option Asked) (b : Lent) (text line : List ℕ) (answer : Result (Unit {0}) OutOfMemory)
    → OnOk answer (text ≡ line) → ((s : Store) → line ≡ request_reply s o) → RequestCall tries o b b text answer
refused_by tries o b text line (Ok u) e is = refused_line tries o b text (λ s. e ∙ is s)
refused_by tries o b text line (Err v) e is = request_short tries o b b text v (goes_same b)

-- by runs
module _ (tries : ℕ) (q : Asked) (b n : Lent) (text : List ℕ) (short : position is_long q.ranges ≡ None) where
  abbrev header : List ℕ
  header = number_line (codes "OK") (length q.ranges)

  by_runs : (s : Store) (c : Bool) → asks_missing s q ≡ c
      → request_reply s (Some q) ≡ cond c (word_line (codes "NONE")) (ok_text s q)
  by_runs s c e =
      ap (λ (o : Option ℕ). range_reply s q o) short
      ∙ ap (λ (a : Bool). cond a (word_line (codes "NONE")) (ok_text s q)) e

  pub runs_whole : RangesCall tries q b n header text (Ok fetched.Whole) → RequestCall tries (Some q) b n text (Ok tt)
  runs_whole c = record {
    goes_on = c.goes_on;
    done = λ s o t.
        let d = c.done s o t in
        replied s tries (Some q) b n text c.goes_on (d.1 ∙ sym (by_runs s false (not_missing s q d.0)));
  }

  pub runs_missing : (now : List ℕ) → RangesCall tries q b n header now (Ok fetched.Missing)
      → text ≡ word_line (codes "NONE") → RequestCall tries (Some q) b n text (Ok tt)
  runs_missing now c e = record {
    goes_on = c.goes_on;
    done = λ s o t. replied s tries (Some q) b n text c.goes_on (e ∙ sym (by_runs s true (c.done s o t)));
  }

  is_run : is_run_request (Some q) ≡ true
  is_run = ap (λ (o : Option ℕ). is_none o) short

  fail_text : (s : Store) (k : ℕ) → IsConnectionError k → number_line (codes "FAIL") k ≡ request_answer s (Some q) k
  fail_text s k c = ⊎_elim
      (λ (e : k ≡ 2). ap (λ (j : ℕ). number_line (codes "FAIL") j) e
      ∙ sym (ap (λ (j : ℕ). request_answer s (Some q) j) e))
      (λ (e : k ≡ 4). ap (λ (j : ℕ). number_line (codes "FAIL") j) e
      ∙ sym (ap (λ (j : ℕ). request_answer s (Some q) j) e)) c

  pub runs_failed : (now : List ℕ) (k : ℕ) → RangesCall tries q b n header now (Ok (fetched.Failed k))
      → text ≡ number_line (codes "FAIL") k → RequestCall tries (Some q) b n text (Ok tt)
  runs_failed now k c e = record {
    goes_on = c.goes_on;
    done = λ s o t.
        let d = c.done s o t in
        record { k = k; may = inr (is_run, d.0); is = e ∙ fail_text s k d.0; few = d.1 };
  }

  -- whatever the answer is
  pub missing_by : (now : List ℕ) (answer : Result (Unit {0}) OutOfMemory)
      → RangesCall tries q b n header now (Ok fetched.Missing) → OnOk answer (text ≡ word_line (codes "NONE"))
      → RequestCall tries (Some q) b n text answer
  missing_by now (Ok u) c e = runs_missing now c e
  missing_by now (Err v) c e = request_short tries (Some q) b n text v c.goes_on

  pub failed_by : (now : List ℕ) (k : ℕ) (answer : Result (Unit {0}) OutOfMemory)
      → RangesCall tries q b n header now (Ok (fetched.Failed k)) → OnOk answer (text ≡ number_line (codes "FAIL") k)
      → RequestCall tries (Some q) b n text answer
  failed_by now k (Ok u) c e = runs_failed now k c e
  failed_by now k (Err v) c e = request_short tries (Some q) b n text v c.goes_on

-- ---- lines

pub quit_replied : (tries : ℕ) (line : List ℕ) (b : Lent) (text : List ℕ) → is_quit line ≡ true
    → text ≡ word_line (codes "BYE") → LineCall tries line b b text (Ok tt)
quit_replied tries line b text q e = record {
  goes_on = goes_same b;
  done = λ s o t. record {
    k = 0;
    may = inl refl;
    is = e ∙ sym (ap (λ (c : Bool). cond c (word_line (codes "BYE")) (request_reply s (request_of line))) q);
    few = no_fail tries b.clients b.clients (goes_same b).clients;
  };
}

pub line_short : (tries : ℕ) (line : List ℕ) (b n : Lent) (text : List ℕ) (e : OutOfMemory) → GoesOn b n
    → LineCall tries line b n text (Err e)
line_short tries line b n text e g = record { goes_on = g; done = λ s i t. tt }

pub quit_by : (tries : ℕ) (line : List ℕ) (b : Lent) (text : List ℕ) (answer : Result (Unit {0}) OutOfMemory)
    → is_quit line ≡ true → OnOk answer (text ≡ word_line (codes "BYE")) → LineCall tries line b b text answer
quit_by tries line b text (Ok u) q e = quit_replied tries line b text q e
quit_by tries line b text (Err v) q e = line_short tries line b b text v (goes_same b)

module _ (tries : ℕ) (line : List ℕ) (o : Option Asked) (b n : Lent) (text : List ℕ) (no : is_quit line ≡ false)
    (is : o ≡ request_of line) where
  text_is : (s : Store) (k : ℕ) → text ≡ request_answer s (request_of line) k → text ≡ answer_text s line k
  text_is s zero e =
      e ∙ sym (ap (λ (c : Bool). cond c (word_line (codes "BYE")) (request_reply s (request_of line))) no)
  text_is s (suc k) e = e

  line_replied : (s : Store) → RequestReplied s tries (request_of line) b n text → LineReplied s tries line b n text
  line_replied s r = record { k = r.k; may = r.may; is = text_is s r.k r.is; few = r.few }

  pub request_line : RequestCall tries o b n text (Ok tt) → LineCall tries line b n text (Ok tt)
  request_line c = record {
    goes_on = c.goes_on;
    done = λ s i t.
        line_replied s (subst (λ (x : Option Asked). RequestReplied s tries x b n text) is (c.done s i t));
  }

  pub line_by : (answer : Result (Unit {0}) OutOfMemory) → RequestCall tries o b n text answer
      → LineCall tries line b n text answer
  line_by (Ok u) c = request_line c
  line_by (Err v) c = line_short tries line b n text v c.goes_on
