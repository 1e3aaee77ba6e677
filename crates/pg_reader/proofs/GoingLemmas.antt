-- How any reader goes on, by no step, and by some steps and then others: for what has a reader make steps.
use Rattle.pg_reader.specs.Going.{HasGoneOn}

module _ {D F : Type 0} {can : D → F → Type 0} {reaches : D → F → D → F → Type 0} where
  pub gone_on_none : {reader : D} {from : F} → can reader from → HasGoneOn can reaches reader from reader from
  gone_on_none ready = record { ready = ready; read = λ r f h. h }

  pub gone_on_more : {reader reader' reader'' : D} {from from' from'' : F}
      → HasGoneOn can reaches reader from reader' from' → HasGoneOn can reaches reader' from' reader'' from''
      → HasGoneOn can reaches reader from reader'' from''
  gone_on_more first then = record { ready = then.ready; read = λ r f h. then.read r f (first.read r f h) }
