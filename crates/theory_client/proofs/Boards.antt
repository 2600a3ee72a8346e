-- What is asked of a search over a log, on a board of the log.
use Rattle.std.proofs.Common.{◌≡◌, ℕ, List, sym, subst}
use Rattle.cnf_base.specs.Literals.{Literal}
use Rattle.smt_terms.specs.Terms.{TermsValue}
use Rattle.proof_log.specs.Stored.{LogValue}
use Rattle.theory_client.specs.Posed.{IsPosed}

pub board_posed : (terms own : TermsValue) (log own_log : LogValue) (roots positions : List ℕ) (given : List Literal) → own ≡ terms → own_log ≡ log → IsPosed terms.nodes log.entries roots positions given → IsPosed own.nodes own_log.entries roots positions given
board_posed terms own log own_log roots positions given e e_log h =
    subst (λ (v : TermsValue). IsPosed v.nodes own_log.entries roots positions given) (sym e)
    (subst (λ (v : LogValue). IsPosed terms.nodes v.entries roots positions given) (sym e_log) h)
