-- What contracts see of the queries of a file.
use Rattle.std.specs.Prelude.{List, map}
use Rattle.bool_query.specs.View.{tree_of}
use Rattle.query_file.specs.declared.queries.NumberedQuery.{NumberedQuery}
use Rattle.query_file.specs.Queries.{Numbered}

-- a query with the number of its line
abbrev pub seen : NumberedQuery → Numbered
seen query = record { line = query.line; query = tree_of query.query }

abbrev pub all_seen : List NumberedQuery → List Numbered
all_seen queries = map seen queries
