pub mod KeptBooks
