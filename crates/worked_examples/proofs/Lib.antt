mod RunAgain
