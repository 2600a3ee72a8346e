-- What is made from a closed table is a model.
use Rattle.std.proofs.Common.{ℕ, Bool, List}
use Rattle.std.specs.Prelude.{Contains}
use Rattle.smt_terms.specs.declared.node.Node.{Node}
use Rattle.smt_terms.specs.Bits.{TermBits, image_in}
use Rattle.smt_terms.specs.Terms.{IsTermList}
use Rattle.smt_terms.specs.Values.{Value, Interpretation}
use Rattle.access_tables.specs.Encoded.{HaveBits, AreSatisfied}
use Rattle.access_tables.specs.Held.{TableValue, spare_in, assigned_value, table_word, IsClosedUnder}
use Rattle.access_tables.specs.Modeled.{IsFrom, IsModel}
use Rattle.access_tables.proofs.Choosing.{agrees}
use Rattle.access_tables.proofs.Closed.{coherent}
use Rattle.access_tables.proofs.Encoded.{ready}

pub from_closed : (nodes : List Node) (bits : List TermBits) (f : ℕ → Bool) (table : TableValue) (M : Interpretation)
    → IsTermList nodes → HaveBits nodes bits (Contains table.terms) → AreSatisfied nodes bits f (Contains table.terms)
    → IsClosedUnder nodes bits f table → IsFrom nodes bits f table M → IsModel nodes bits f table M
from_closed nodes bits f table M terms have sat closed from =
    let val : ℕ → Value = assigned_value nodes bits f in
    let r = ready nodes terms bits f (Contains table.terms) have closed.terms sat in
    let c = coherent nodes terms (image_in bits) (Contains table.terms) val table.rows closed.rows (spare_in table.spares) closed.spares in
    agrees nodes (image_in bits) (Contains table.terms) val (table_word nodes bits f table) M terms r c from
